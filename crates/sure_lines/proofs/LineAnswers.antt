-- What answers a line, by what the line says.
use Rattle.std.proofs.Common.{◌≡◌, ℕ, Bool, List, [], Option, None, arith}
use Rattle.gtp_rules.specs.Lines.{RawLine}
use Rattle.gtp_rules.specs.Transcript.{MayGive, MayAnswer}
use Rattle.gtp_cmd.specs.declared.commands.Command.{Command}
use Rattle.gtp_cmd.specs.declared.commands.Parsed.{Parsed}
use Rattle.sure_lines.specs.Answers.{IsAnswer}
use Rattle.sure_lines.specs.Files.{Contents}
use Rattle.sure_lines.specs.Heard.{heard_at, bytes_in}
use Rattle.sure_lines.specs.Machine.{Machine}
use Rattle.sure_lines.specs.SureStep.{effect_of, parsed_step, step}
use Rattle.sure_lines.specs.Texts.{IsTextOf, IsTextSaid}
use Rattle.sure_lines.specs.declared.answer.Answer.{Answer}

-- a command that takes no text is done as it says, whatever a text holds
pub obeyed : (contents : Contents) (old new : Machine) (line : List ℕ) (command known : Command) (said : Answer)
    → command ≡ known → IsTextOf contents old line known []
    → ((file : List ℕ) → IsAnswer (effect_of old line file known) said old new)
    → (file : List ℕ) × IsTextOf contents old line command file
    × IsAnswer (effect_of old line file command) said old new
obeyed contents old new line command known said is taken answers = grind arith

-- what answers to what a line says answers the line
pub answered : (contents : Contents) (old new : Machine) (line : RawLine) (size : ℕ) (what : Parsed) (out : List ℕ)
    (ends : Bool) (file : List ℕ) → what ≡ heard_at size line → size ≡ old.game.base.size
    → IsTextSaid contents old (bytes_in line) what file
    → MayGive (parsed_step old (bytes_in line) file what) out new ends → MayAnswer (step contents) old line out new ends
answered contents old new line size what out ends file says same of gives = grind arith
