pub mod Units
pub mod Stripe
pub mod Calls
pub mod inner
