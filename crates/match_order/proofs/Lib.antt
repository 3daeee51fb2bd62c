-- Laws of the order and of the choice in it.
pub mod CountLaws
pub mod PickLaws
