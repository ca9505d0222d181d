-- Laws of a step: kinds 1 to 18, then kinds 19 to 25.
pub mod Works
pub mod Controls
