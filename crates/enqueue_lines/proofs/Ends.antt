-- What is known of an input and of both outputs.
use Rattle.byte_ends.specs.declared.traits.Drain.{Ghosts as DrainGhosts}
use Rattle.byte_ends.specs.declared.traits.Source.{Ghosts as SourceGhosts}
use Rattle.enqueue_lines.specs.Running.{KnownEnds, KnownOutputs, ends_at, outputs_at}

abbrev pub outputs_of : {O E : Type 0} → DrainGhosts O → DrainGhosts E → O → E → KnownOutputs
outputs_of of_output of_errors output errors =
    outputs_at (of_output.taken output) (of_output.failed output) (of_errors.taken errors) (of_errors.failed errors)

abbrev pub ends_of : {S O E : Type 0} → SourceGhosts S → DrainGhosts O → DrainGhosts E → S → O → E → KnownEnds
ends_of of_source of_output of_errors source output errors =
    ends_at (of_source.left source) (of_source.failed source) (outputs_of of_output of_errors output errors)
