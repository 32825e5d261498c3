mod LineLemmas
mod RentedLemmas
mod ServeLemmas
