pub mod Beginning
pub mod Laying
pub mod Finding
