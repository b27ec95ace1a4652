-- What a form of the program is to contracts (this project's own).
use Rattle.cf_types.specs.declared.forms.Form.{Form}
use Rattle.cf_types.specs.declared.forms.Form.TheVariants.{Text, Data, Whole, Same}
use Rattle.cf_types.specs.Views.{FormView, text_form, data_form, whole_form, same_form}

-- what a form of the program is to contracts: how much room a text or data has plays no part
abbrev pub form_view : Form → FormView
form_view (Text text) = text_form text.units
form_view (Data bytes) = data_form bytes.items
form_view (Whole value) = whole_form value
form_view (Same id) = same_form id
