mod Changing
mod Copying
mod Patching
mod Pinning
mod Undoing
