-- Texts with their scripts or refusals, by which the definitions can be compared with what they are meant to say.
use Rattle.std.specs.Prelude.{ℕ, List, [], ◌∷◌, ◌++◌, map, codes, true, Option, Some, None, Result, Ok, Err}
use Rattle.cf_syntax.specs.declared.script.Script.{Script}
use Rattle.cf_syntax.specs.declared.refusal.Refusal.{Refusal}
use Rattle.cf_syntax.specs.declared.refusal.Reason.{Reason}
use Rattle.cf_syntax.specs.declared.refusal.Reason.TheVariants.{NotUtf8, Text, Header, Word, Order, Kind, Arity, Name, Number, Hex, Twice, Open, NoSetup}
use Rattle.cf_syntax.specs.declared.statement.Statement.TheVariants.{MakeString, MakeBag, Retain, SetTake, ArrSet, Wake, Run}
use Rattle.cf_syntax.specs.declared.mention.ThreadWord.TheVariants.{Named}
use Rattle.cf_syntax.specs.Text.{script_of}
use Rattle.cf_syntax.specs.Examples.{refused_at}

-- setup, a thread that takes over a variable and one that setup does not have, and a handler of two variables
abbrev pub blocks_text : List ℕ
blocks_text =
    codes "cf 1\nsetup\n  make a string \"h\\\"i\"\n# nothing\nmake b bag plain\nwake t\nrun panel 00 once\nend\n"
    ++ codes "thread t uses b z\nset.take v b z\nend\nhandler h\nretain info\narr.set w 7 info\nend"

abbrev pub blocks_script : Script
blocks_script = record {
  classes = [];
  blocks = record {
    name = codes "setup";
    uses = [];
    variables = codes "a" ∷ codes "b" ∷ [];
    statements = MakeString 0 (codes "h\"i") ∷ MakeBag 1 true ∷ Wake (Named (Some 1)) ∷ Run 1 (Some 0) true ∷ [];
    lines = 3 ∷ 5 ∷ 6 ∷ 7 ∷ [];
    first = 2;
    last = 8;
  } ∷ record {
    name = codes "t";
    uses = record { setup = Some 1; own = 0 } ∷ record { setup = None; own = 1 } ∷ [];
    variables = codes "b" ∷ codes "z" ∷ codes "v" ∷ [];
    statements = SetTake 2 0 1 ∷ [];
    lines = 10 ∷ [];
    first = 9;
    last = 11;
  } ∷ record {
    name = codes "h";
    uses = [];
    variables = codes "info" ∷ codes "w" ∷ [];
    statements = Retain 0 ∷ ArrSet 1 7 0 ∷ [];
    lines = 13 ∷ 14 ∷ [];
    first = 12;
    last = 15;
  } ∷ [];
  thread_count = 2;
  handlers = record { name = codes "h"; block = Some 2 } ∷ [];
  modes = codes "default" ∷ codes "panel" ∷ [];
  notices = [];
}

-- a text and its refusal
pub record Case : Type 0 where
  pub text : List ℕ
  pub refusal : Refusal

abbrev pub case : List ℕ → ℕ → Reason → Case
case text line reason = record { text = text; refusal = refused_at line reason }

-- a line in setup, which is line 3
abbrev pub in_setup : List ℕ → List ℕ
in_setup line = codes "cf 1\nsetup\n" ++ line ++ codes "\nend\n"

-- the reasons that come without a line of setup
abbrev pub refused_blocks : List Case
refused_blocks =
    case [] 1 Header
    ∷ case (codes "# cf 1") 1 Header
    ∷ case (codes "# \"") 1 Text
    ∷ case (codes "cf 1") 2 NoSetup
    ∷ case (codes "cf 1\nsetup\n") 3 Open
    ∷ case (codes "cf 1\nhandler h\n") 2 Order
    ∷ case (codes "cf 1\nsetup\nend\nsetup\n") 4 Twice
    ∷ case (codes "cf 1\nsetup\nend\nclass\n") 4 Order
    ∷ case (codes "cf 1\nsetup\nend\nhandler h\nend\nthread t\n") 6 Order
    ∷ case (codes "cf 1\nsetup\nend\nthread t uses\n") 4 Arity
    ∷ case (codes "cf 1\nsetup\nend\nthread t x y\n") 4 Kind
    ∷ case (codes "cf 1\nclass c fields 256 equal key\n") 2 Number
    ∷ case (codes "cf 1\nsetup x\n") 2 Arity
    ∷ []

-- those of a line of setup
abbrev pub refused_lines : List Case
refused_lines =
    case (in_setup (255 ∷ [])) 3 NotUtf8
    ∷ case (in_setup (codes "frob")) 3 Word
    ∷ case (in_setup (codes "post n nil")) 3 Word
    ∷ case (in_setup (codes "run default forever")) 3 Number
    ∷ case (in_setup (codes "run default 1 once")) 3 Number
    ∷ case (in_setup (codes "make a frob")) 3 Kind
    ∷ case (in_setup (codes "make a timer 0 0 h nil")) 3 Kind
    ∷ case (in_setup (codes "make a")) 3 Arity
    ∷ case (in_setup (codes "make a string")) 3 Arity
    ∷ case (in_setup (codes "make 9 frob")) 3 Kind
    ∷ case (in_setup (codes "make 9 string x")) 3 Name
    ∷ case (in_setup (codes "make a string x")) 3 Text
    ∷ case (in_setup (codes "make a number s8 128")) 3 Number
    ∷ case (in_setup (codes "make a data 0")) 3 Hex
    ∷ case (in_setup (codes "make a string \"x")) 3 Text
    ∷ case (in_setup (codes "make a array full")) 3 Kind
    ∷ case (in_setup (codes "end x")) 3 Arity
    ∷ case (in_setup (codes "retain info")) 3 Name
    ∷ case (in_setup (codes "str.delete 9 x x")) 3 Name
    ∷ case (in_setup (codes "str.delete a x x")) 3 Number
    ∷ []

-- the refusal of a text
abbrev pub refusal_in : Result Script Refusal → Option Refusal
refusal_in (Ok s) = None
refusal_in (Err r) = Some r

abbrev pub told : List Case → List (Option Refusal)
told cases = map (λ (c : Case). refusal_in (script_of c.text)) cases

abbrev pub wanted : List Case → List (Option Refusal)
wanted cases = map (λ (c : Case). Some c.refusal) cases
