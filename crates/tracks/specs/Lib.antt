-- What contracts cite of tracks. No promise of an entry rests on it.
pub mod Entries
