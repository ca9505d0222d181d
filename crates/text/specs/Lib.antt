-- Text: numbers, words, fields, check numbers.
pub mod Text
