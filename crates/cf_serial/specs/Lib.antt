-- The files of definitions of cf_serial.
pub mod Numbers
pub mod Running
pub mod Serial
