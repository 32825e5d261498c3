mod WeighLemmas
mod StepLemmas
mod MomentLemmas
mod RentLemmas
