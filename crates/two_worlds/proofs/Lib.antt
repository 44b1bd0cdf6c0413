pub mod Told
pub mod HiddenSecrets
