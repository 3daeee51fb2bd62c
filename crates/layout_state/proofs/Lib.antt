-- Laws of a state laid into words and judged there.
pub mod LayLaws
pub mod AllLaws
pub mod WellLaws
pub mod ValueLaws
