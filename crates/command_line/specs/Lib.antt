pub mod Laws
pub mod Name
pub mod NumberLaws
pub mod ValueLaws
pub mod Asked
