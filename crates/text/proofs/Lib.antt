mod Numbers
mod Laying
mod Entries
mod Lines
mod Loading
