-- Settings and state in the order of document 01: "State and numbers" (settings with refusal 6, state), refusal 7. Typed says what the types of the
-- code give.
pub mod Settings
pub mod State
pub mod Accept
pub mod Typed
