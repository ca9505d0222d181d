-- What an operation leaves once its one store is done, before its exact result is limited, and what the code over words relies on.
pub mod Space
pub mod Carried
