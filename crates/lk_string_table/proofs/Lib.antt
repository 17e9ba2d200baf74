pub mod TextsStored
