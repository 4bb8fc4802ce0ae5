pub mod AssignmentLemmas
