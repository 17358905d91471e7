pub mod AgreedLaws
