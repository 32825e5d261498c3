mod OrderLemmas
mod StepLemmas
mod WorkerLemmas
