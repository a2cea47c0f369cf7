mod Adding
mod Counting
mod Lines
mod Standing
mod Straight
