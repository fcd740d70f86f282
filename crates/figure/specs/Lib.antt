-- What the figure's contracts cite.
pub mod FigureTables
pub mod Checked
