pub mod Alike
pub mod Called
pub mod Stillness
