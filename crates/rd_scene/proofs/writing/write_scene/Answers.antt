use Rattle.rd_scene.proofs.Reread.Scripts.{text_if_ok}
use Rattle.rd_scene.proofs.writing.write_scene.Goals as goal

pub returns-clause-read : goal.returns-clause-read
returns-clause-read c =
    text_if_ok (λ v. v.items) c.args.script.now c.text_of.result c.of_script.ensures.rules c.of_script.ensures.types c.text_of.ensures.value
