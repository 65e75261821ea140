use Prim.Native.Nat.{ℕ}
use mathlib.Core.Path.{refl, ◌∙◌}
use lib.ListN.{replicate, length-replicate}
use Rattle.session.specs.declared.end.Left.{Left}
use Rattle.session.proofs.EndLaws.{open_path, due_path, left_open, left_due, left_shut}
use Rattle.ending.proofs.path_left.Goals as goal

pub returns-in-Opened : goal.returns-in-Opened
returns-in-Opened g c =
    let a = c.args in
    let w = g.S.Sites.walker a.sites.now in
    let run = c.requires.by_index in
    let st = c.steps in
    let x : Left = record { next = 0; atoms = st.new.atoms; nexts = st.new.nexts; deepest = c.deepest-deepest.result } in
    let at = open_path w run.1.0 a.walked c.in-Opened.field-0 c.in-Opened.depth c.in-Opened.is run.0 a.path.now run.1.1 in
    left_open w a.walked a.path.now x c.deepest-deepest.ensures c.in-Opened.depth at.0.deep (st.auto.atoms ∙ length-replicate {A = ℕ} 1024 0) (st.auto.nexts ∙ length-replicate {A = ℕ} 1024 0) st.ensures
    c.in-Opened.field-0 c.in-Opened.is refl

pub returns-in-Exhausted : goal.returns-in-Exhausted
returns-in-Exhausted g c =
    let a = c.args in
    let w = g.S.Sites.walker a.sites.now in
    let run = c.requires.by_index in
    let st = c.steps-in-Exhausted in
    let x : Left = record { next = c.next.result; atoms = st.new.atoms; nexts = st.new.nexts; deepest = c.deepest-deepest.result } in
    let at = due_path w run.1.0 a.walked c.in-Exhausted.depth c.in-Exhausted.is run.0 a.path.now run.1.1 in
    left_due w a.walked a.path.now x c.deepest-deepest.ensures c.in-Exhausted.depth at.0.deep (st.auto.atoms ∙ length-replicate {A = ℕ} 1024 0) (st.auto.nexts ∙ length-replicate {A = ℕ} 1024 0) st.ensures
    c.in-Exhausted.is c.next.ensures

pub returns-in-Shut : goal.returns-in-Shut
returns-in-Shut g c =
    let a = c.args in
    let x : Left = record { next = a.used; atoms = replicate 1024 0; nexts = replicate 1024 0; deepest = c.deepest-deepest.result } in
    left_shut (g.S.Sites.walker a.sites.now) a.walked a.path.now x c.deepest-deepest.ensures c.in-Shut.field-0 c.in-Shut.is refl refl c.requires.used_value
