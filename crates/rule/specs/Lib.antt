-- What contracts cite of the operators as the code holds them. No promise of an entry rests on it.
pub mod Operator
