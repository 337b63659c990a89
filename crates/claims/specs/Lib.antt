-- Demand 3: the plain list, a store seen as one, the machine that runs the calls, and what is claimed of it.
pub mod Plain
pub mod View
pub mod Machine
pub mod Claims
pub mod Operators
pub mod Earlier
pub mod AsAdds
