pub mod PlaceLaws
pub mod StoreLaws
pub mod CountLaws
pub mod SoundLaws
pub mod KeepLaws
pub mod StepLaws
pub mod RenamedLaws
pub mod FewerLaws
