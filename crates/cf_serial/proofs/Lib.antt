-- Lemmas of cf_serial.
mod Closing
mod Finding
mod Growing
mod Leads
mod Nexts
mod Raising
mod Starting
mod Timing
mod Turns
