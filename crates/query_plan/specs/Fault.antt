-- The numbers and the words of refusals. They are the project's own.
use Rattle.std.specs.Prelude.{ℕ, List, ◌++◌, codes, decimal}
use Rattle.query_plan.specs.declared.fault.PlanFault.{PlanFault}
use Rattle.query_plan.specs.declared.fault.PlanFault.TheVariants.{BadLine, NoQuery, ReadFault, WriteFault, NoMemory}

abbrev pub plan_fault_number : PlanFault → ℕ
plan_fault_number (BadLine line) = 1
plan_fault_number (NoQuery line) = 2
plan_fault_number ReadFault = 3
plan_fault_number WriteFault = 4
plan_fault_number NoMemory = 5

abbrev pub plan_fault_words : PlanFault → List ℕ
plan_fault_words (BadLine line) = codes "BadLine " ++ decimal line
plan_fault_words (NoQuery line) = codes "NoQuery " ++ decimal line
plan_fault_words ReadFault = codes "ReadFault"
plan_fault_words WriteFault = codes "WriteFault"
plan_fault_words NoMemory = codes "NoMemory"
