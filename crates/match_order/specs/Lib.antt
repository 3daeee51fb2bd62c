-- Rules in the order in which they are preferred, and the matching ones among them.
pub mod Order
