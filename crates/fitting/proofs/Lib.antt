mod Rooms
mod Reading
mod Finding
mod Parts
mod Stepping
mod Children
