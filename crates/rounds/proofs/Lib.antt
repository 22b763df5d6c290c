pub mod Entrants
pub mod Nobody
