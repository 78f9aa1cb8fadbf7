pub mod ShuffleLaws
