pub mod ReadLaws
pub mod WriteLaws
pub mod ReceivedTheorems
pub mod CommandRows
pub mod CommandTheorems
pub mod RoundTrips
