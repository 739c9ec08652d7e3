pub mod FormPlaces
