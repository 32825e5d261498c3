mod EndLemmas
mod GenLemmas
