pub mod Equations
mod WorkedFormulas
