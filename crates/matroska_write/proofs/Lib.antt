pub mod ClusterLaws
pub mod TrackLaws
