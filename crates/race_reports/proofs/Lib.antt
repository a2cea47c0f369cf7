mod Passing
mod Quieting
mod Sharing
mod Told
mod Turning
