-- What is believed of the text, and, in `Parts`, what contracts inside cite: no promise rests on that.
pub mod Text
pub mod Parts
