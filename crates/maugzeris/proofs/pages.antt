mod NodeAttributes
mod Values
mod SameTree
mod Anew
mod Written
mod Parents
mod InstanceNumbers
mod Rules
