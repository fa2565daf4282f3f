-- What contracts cite of scans. No promise of an entry rests on it.
pub mod Cases
