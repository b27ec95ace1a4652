-- Answers to the goals of `mem_source::MemSourceSource::open`.
use Rattle.std.proofs.Common.{rules, ◌≡◌, None, Some, refl, inr, ⊎_elim}
use Rattle.cf_io.specs.Files.{content_of}
use Rattle.cf_io.specs.MemFiles.{bytes_at}
use Rattle.cf_io.proofs.Places.{content_of-place}
use Rattle.cf_io.proofs.mem_source.MemSourceSource.open.Goals as goal

pub returns-in-None-clause-failed : goal.returns-in-None-clause-failed
returns-in-None-clause-failed c =
    let found = content_of-place c.self.inside.files.items c.args.name.now c.place_of.result (search rules) in
    let missing : content_of c.args.self.now.files c.args.name.now ≡ None = search rules in
    (λ _. inr missing, λ _. refl)

pub returns-in-Some-clause-failed : goal.returns-in-Some-clause-failed
returns-in-Some-clause-failed c =
    let found = content_of-place c.self.inside.files.items c.args.name.now c.place_of.result (search rules) in
    let there : content_of c.args.self.now.files c.args.name.now
    ≡ Some (bytes_at c.self.inside.files.items c.in-Some.place) = search rules in (
      λ e. cc,
      λ w. ⊎_elim (λ listed. c.in_ok-begin.ensures.listed.1 (rw (← c.self.view_is) at listed)) (λ missing. cc)
          w,
    )

pub returns-in-Some-clause-opened : goal.returns-in-Some-clause-opened
returns-in-Some-clause-opened c = let found =
    content_of-place c.self.inside.files.items c.args.name.now c.place_of.result (search rules) in search rules
