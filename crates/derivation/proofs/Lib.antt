mod Working
mod Room
mod Firing
mod Waking
mod Keeping
