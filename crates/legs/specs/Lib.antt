-- Legs of a run: where one begins, where it ends, and what a whole run over decoded words comes to.
pub mod Leg
