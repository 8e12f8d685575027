mod Machine
mod Totalling
