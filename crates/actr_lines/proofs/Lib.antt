-- Laws of letters put one after the other, of decimal digits and of lines.
pub mod WrittenLaws
pub mod DecimalLaws
pub mod LineLaws
