pub mod Laying
pub mod Seeing
