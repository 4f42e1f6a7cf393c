pub mod RingInputs
