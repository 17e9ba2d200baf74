pub mod ClaimsFound
