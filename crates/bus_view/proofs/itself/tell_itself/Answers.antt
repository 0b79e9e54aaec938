use Rattle.std.proofs.Common.{List, ℕ, subst}
use Rattle.bus_command.specs.About.{EndsTelling}
use Rattle.bus_view.specs.Refusals.{Outcome}
use Rattle.bus_view.proofs.itself.tell_itself.Goals as goal

pub returns-clause-ends : goal.returns-clause-ends
returns-clause-ends g c =
    let came : Outcome = c.tell.result in
    subst (λ (told : List ℕ). EndsTelling g.K.Sink told c.args.out.now c.tell.new.out came) c.text_of.ensures c.tell.ensures.ends
