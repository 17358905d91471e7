mod ReadLemmas
mod SendLemmas
