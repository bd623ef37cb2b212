use Rattle.script_text.proofs.OneScript.{one_script}
use Rattle.script_text.proofs.laws.scripts_have_one_reading.Goals as goal

pub returns : goal.returns
returns c = one_script
