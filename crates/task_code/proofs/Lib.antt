pub mod Counting
pub mod ExampleTask
pub mod ExampleWords
pub mod Promising
pub mod Standing
