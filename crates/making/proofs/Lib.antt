pub mod SettleLaws
pub mod RoomLaws
pub mod MakesLaws
